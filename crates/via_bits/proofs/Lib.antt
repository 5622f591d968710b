pub mod Or
