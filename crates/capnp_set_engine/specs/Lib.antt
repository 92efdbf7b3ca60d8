pub mod Command
pub mod Convert
pub mod Notes
