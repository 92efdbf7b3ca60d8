pub mod Changes
pub mod Found
pub mod Laws
pub mod Left
pub mod Made
pub mod Refusals
pub mod Steps
