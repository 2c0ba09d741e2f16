pub mod Scans
pub mod Values
pub mod Nests
pub mod Wholes
pub mod Checks
pub mod Items
pub mod Members
