pub mod Worth
pub mod Order
