pub mod Bytes
pub mod Told
pub mod Pieces
pub mod Widths
pub mod Runs
pub mod Samples
pub mod Faithful
pub mod Calls
