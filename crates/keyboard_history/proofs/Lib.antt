pub mod Cases
pub mod Order
pub mod Nulls
pub mod Waits
pub mod Samples
