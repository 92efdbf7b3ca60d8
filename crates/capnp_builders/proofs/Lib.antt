pub mod Blobs
pub mod Writes
pub mod Pushes
pub mod Taken
