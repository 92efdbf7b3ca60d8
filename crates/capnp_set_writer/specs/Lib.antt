pub mod Kept
pub mod Limits
pub mod Message
pub mod Trees
pub mod Writes
pub mod Steps
