pub mod ChangesPut
pub mod FieldNames
pub mod Indexed
pub mod LinesPut
pub mod NoneTold
pub mod Sharing
pub mod OnePair
