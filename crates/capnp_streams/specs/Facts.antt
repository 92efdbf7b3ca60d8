-- Facts of streams, with their proofs: what lemmas of crates above cite.
pub mod Lengths
