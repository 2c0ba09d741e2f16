pub mod Paths
pub mod Pairs
pub mod Lent
