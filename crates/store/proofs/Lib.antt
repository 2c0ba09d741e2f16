pub mod Answer
pub mod Cuts
pub mod First
