-- Facts of texts, with their proofs: what lemmas of crates above cite.
pub mod TextSound
pub mod Opening
