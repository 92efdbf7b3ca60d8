pub mod Facts
pub mod Lengths
pub mod Next
pub mod Received
pub mod Texts
