pub mod DriveTicks
pub mod ControlLaws
pub mod Ranges
pub mod Steps
pub mod Bounds
pub mod Pulses
pub mod StrobeTicks
pub mod DrivesLaws
