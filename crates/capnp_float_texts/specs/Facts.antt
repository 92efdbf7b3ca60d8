-- Facts of the definitions, with their proofs.
pub mod Deciding
pub mod Decimals
pub mod FloatTexts
pub mod ItemsInOrder
pub mod PartsShown
pub mod Roots
