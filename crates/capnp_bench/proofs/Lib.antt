pub mod ArenaItems
mod Items
mod Kept
pub mod Lists
mod Started
