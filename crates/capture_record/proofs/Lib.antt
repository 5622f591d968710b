pub mod Judged
pub mod Given
