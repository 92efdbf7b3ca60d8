pub mod Show
pub mod Command
pub mod Facts
pub mod Opened
pub mod Run
pub mod WithSet
pub mod Steps
