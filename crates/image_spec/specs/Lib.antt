pub mod Layout
pub mod ViaLayout
pub mod ClockLayout
pub mod DriveLayout
pub mod Image
