pub mod Differences
pub mod Closing
pub mod Keys
pub mod Notes
pub mod Steps
