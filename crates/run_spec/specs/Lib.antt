pub mod Turn
pub mod Outcome
