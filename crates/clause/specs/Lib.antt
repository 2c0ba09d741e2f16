pub mod Shown
pub mod Left
