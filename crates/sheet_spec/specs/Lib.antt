pub mod Records
pub mod Counting
pub mod Lookup
pub mod Compaction
