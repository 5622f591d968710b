pub mod CommandRange
pub mod Commands
pub mod Places
pub mod Stopped
pub mod PhaseRange
pub mod Undriven
pub mod Extended
