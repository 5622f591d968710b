pub mod Values
pub mod Looks
pub mod Strobes
pub mod Apart
pub mod Writes
