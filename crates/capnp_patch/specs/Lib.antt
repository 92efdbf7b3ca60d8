pub mod Gets
pub mod Lines
pub mod Patches
pub mod Places
pub mod Steps
