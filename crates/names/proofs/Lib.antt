pub mod Rows
pub mod Sorted
pub mod Order
pub mod Each
