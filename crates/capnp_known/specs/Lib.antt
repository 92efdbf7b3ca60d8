pub mod Facts
pub mod Known
pub mod Laws
pub mod Members
