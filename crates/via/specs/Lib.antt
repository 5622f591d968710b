pub mod Setters
pub mod Via
pub mod Shift
pub mod Writes
pub mod Registers
pub mod EightPulses
pub mod Samples
