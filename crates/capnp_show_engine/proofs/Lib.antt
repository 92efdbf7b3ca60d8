pub mod Outcomes
pub mod Shown
pub mod TextFaults
pub mod Digits
pub mod SomeFiles
pub mod Words
