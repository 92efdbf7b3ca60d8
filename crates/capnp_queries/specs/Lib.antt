pub mod Floats
pub mod Json
pub mod Lengths
pub mod Patterns
pub mod PatternsSeen
pub mod Reach
pub mod Shown
pub mod Steps
