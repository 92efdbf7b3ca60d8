pub mod Numbers
pub mod Options
pub mod OptionsSeen
pub mod RequestSeen
pub mod Requests
pub mod Steps
pub mod Tasks
pub mod Usage
