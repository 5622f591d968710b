pub mod Decode
pub mod Table
