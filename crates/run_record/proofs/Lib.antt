pub mod Turns
pub mod Refused
