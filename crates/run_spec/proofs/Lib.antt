pub mod Turns
pub mod Many
pub mod Keeps
pub mod Ordinary
pub mod Users
pub mod Pieces
pub mod Joined
pub mod Answers
