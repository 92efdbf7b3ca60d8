pub mod Found
pub mod Bases
