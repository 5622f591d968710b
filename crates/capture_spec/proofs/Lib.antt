pub mod Records
pub mod Parts
pub mod Walk
pub mod Frames
pub mod Promises
pub mod TickLaws
pub mod Samples
