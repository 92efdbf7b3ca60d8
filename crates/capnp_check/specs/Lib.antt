pub mod Faults
pub mod Places
pub mod Refusals
pub mod ShownFields
pub mod Steps
