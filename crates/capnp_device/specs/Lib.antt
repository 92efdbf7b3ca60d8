pub mod Device
pub mod Ends
pub mod ErrorNumber
