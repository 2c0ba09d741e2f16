pub mod Here
pub mod Told
