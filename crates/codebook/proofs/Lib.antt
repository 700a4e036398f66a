pub mod Numbers
pub mod Evens
