pub mod Part
pub mod Scans
pub mod Rows
