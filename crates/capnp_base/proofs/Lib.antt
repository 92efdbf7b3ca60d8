pub mod RowsTypes
pub mod RowsIterators
pub mod Indices
pub mod Runs
