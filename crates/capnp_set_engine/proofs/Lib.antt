pub mod Lines
pub mod Made
pub mod Refusals
