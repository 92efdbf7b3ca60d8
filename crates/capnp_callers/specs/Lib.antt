pub mod Parts
pub mod Sight
pub mod Streams
pub mod Values
pub mod Steps
