pub mod Events
pub mod Nulls
