pub mod Going
pub mod Digits
pub mod Intervals
pub mod Nearing
pub mod Counting
