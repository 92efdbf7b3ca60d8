pub mod First
pub mod Pairs
pub mod Sets
pub mod Found
pub mod NodesMet
pub mod Rows
