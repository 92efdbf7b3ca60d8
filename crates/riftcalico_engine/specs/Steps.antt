-- Steps between what is promised: what the pure functions decide.
pub mod Passing
pub mod Placing
pub mod Stages
pub mod Told
