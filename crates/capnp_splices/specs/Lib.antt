pub mod Alone
pub mod Facts
pub mod Picks
pub mod Splices
pub mod Steps
