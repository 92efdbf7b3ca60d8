pub mod Errors
pub mod Pieces
pub mod Leaves
pub mod Json
pub mod Written
pub mod Message
pub mod Steps
