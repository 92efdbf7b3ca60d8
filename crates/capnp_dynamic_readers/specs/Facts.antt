-- Facts of the definitions, with their proofs: what lemmas of crates above cite.
pub mod Active
pub mod Appended
pub mod Found
pub mod HasWhich
pub mod ItemsInOrder
pub mod ItemsShown
pub mod PartsShown
pub mod PlainTexts
pub mod Roots
pub mod Taken
pub mod Written
