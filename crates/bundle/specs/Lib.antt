pub mod Rules
pub mod Layout
pub mod Laws
pub mod Rows
