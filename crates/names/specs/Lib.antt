pub mod Repeats
pub mod Order
