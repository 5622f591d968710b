pub mod Capture
pub mod Levels
pub mod Convert
pub mod Ticks
