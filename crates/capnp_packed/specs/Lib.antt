pub mod Packing
pub mod Unpacking
pub mod Received
pub mod Sources
pub mod Steps
