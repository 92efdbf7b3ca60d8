pub mod Enums
pub mod Fields
pub mod Laws
pub mod Limits
pub mod Names
pub mod Sides
pub mod Steps
pub mod Values
