pub mod AnyPointer
pub mod IndexIter
pub mod ReadBack
pub mod Taking
pub mod Text
pub mod Traits
pub mod Types
pub mod Steps
