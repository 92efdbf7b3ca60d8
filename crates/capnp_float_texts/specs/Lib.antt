pub mod Facts
pub mod Numbers
pub mod Texts
pub mod Printed
pub mod Laws
pub mod Steps
