pub mod Books
pub mod Examining
pub mod Opening
