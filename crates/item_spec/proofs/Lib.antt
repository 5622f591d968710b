pub mod Addresses
pub mod RecordLaws
pub mod Any
pub mod ItemRange
pub mod ManyLaws
pub mod KindLaws
pub mod Samples
