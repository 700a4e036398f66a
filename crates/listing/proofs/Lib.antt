pub mod GoodRecords
pub mod Spaces
