pub mod Shown
pub mod Runs
pub mod Samples
pub mod Calls
