pub mod Addresses
pub mod Record
pub mod Items
pub mod Ranged
pub mod Many
pub mod Kinds
pub mod Samples
