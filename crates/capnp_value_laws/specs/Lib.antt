pub mod Laws
pub mod Messages
pub mod Readers
pub mod Texts
pub mod Trees
pub mod Whole
