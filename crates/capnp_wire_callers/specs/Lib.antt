pub mod Path
pub mod Sum
