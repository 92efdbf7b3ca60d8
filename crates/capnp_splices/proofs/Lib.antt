pub mod Deeper
pub mod Filled
pub mod Plain
pub mod Room
pub mod RowsSplices
pub mod Sized
pub mod SoFar
