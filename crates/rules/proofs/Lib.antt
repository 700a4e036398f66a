pub mod Bytes
pub mod Columns
pub mod Lengths
pub mod Walks
