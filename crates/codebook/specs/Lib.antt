pub mod Parity
pub mod Fields
pub mod Ranges
pub mod Sizes
