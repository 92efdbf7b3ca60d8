-- Facts of the definitions, with their proofs: what lemmas of crates above cite.
pub mod Words
pub mod Shapes
pub mod Levels
pub mod Forests
pub mod Calls
pub mod Structs
pub mod Laws
pub mod Places
pub mod Frames
pub mod Elements
