pub mod Joined
pub mod Laws
pub mod Refusals
