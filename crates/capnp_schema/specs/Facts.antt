-- Facts of the definitions, with their proofs: what lemmas of crates above cite.
pub mod AcceptedLists
pub mod Bits
pub mod Computed
pub mod ComputedEntries
pub mod ComputedGroups
pub mod ComputedRules
pub mod ComputedSpans
pub mod ComputedValues
pub mod Fields
pub mod GroupFields
pub mod GroupWalks
pub mod Groups
pub mod Layers
pub mod Slots
