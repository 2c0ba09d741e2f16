pub mod Stated
pub mod Rows
