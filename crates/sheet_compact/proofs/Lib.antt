pub mod Noting
pub mod Leaves
