pub mod History
pub mod Start
pub mod Demand3
pub mod Items
