pub mod Watched
pub mod Drive
pub mod Control
pub mod Sense
pub mod Strobe
pub mod Drives
