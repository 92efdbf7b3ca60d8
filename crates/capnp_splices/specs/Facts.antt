pub mod Carried
pub mod Inside
pub mod Kept
