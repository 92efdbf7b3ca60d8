pub mod Blobs
pub mod Pointers
pub mod Steps
