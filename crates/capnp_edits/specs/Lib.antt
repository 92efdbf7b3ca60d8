pub mod Added
pub mod Changes
pub mod Edits
pub mod EditsSeen
pub mod Laws
pub mod Steps
