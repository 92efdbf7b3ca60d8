-- Words that no public contract stands on.
pub mod Puts
pub mod Strings
pub mod Leaf
pub mod Shown
pub mod Walks
pub mod Records
