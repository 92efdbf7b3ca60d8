pub mod Files
pub mod Outputs
pub mod Places
pub mod Programs
pub mod Runs
pub mod Steps
pub mod Streams
