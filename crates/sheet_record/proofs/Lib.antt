pub mod Steps
pub mod Given
