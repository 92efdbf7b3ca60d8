pub mod Lines
pub mod Changes
pub mod Steps
pub mod Shared
pub mod Versions
