-- Facts of the definitions, with their proofs: what lemmas of crates above cite.
pub mod PartsSeen
pub mod PointersMet
