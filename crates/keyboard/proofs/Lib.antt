pub mod Lists
pub mod Codes
pub mod Checked
pub mod Ticks
