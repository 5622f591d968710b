pub mod Numbers
pub mod Parts
pub mod Equal
pub mod ViaBack
pub mod ClockBack
pub mod DriveBack
pub mod Round
