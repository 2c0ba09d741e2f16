pub mod Over
pub mod Sizes
pub mod Packs
