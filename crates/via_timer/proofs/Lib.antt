pub mod Closed
pub mod Exact
pub mod Counts
