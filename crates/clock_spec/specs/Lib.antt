pub mod Command
pub mod Patterns
pub mod Writable
pub mod Shared
pub mod Store
pub mod Phase
