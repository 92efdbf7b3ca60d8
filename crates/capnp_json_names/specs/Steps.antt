pub mod Labels
pub mod Met
