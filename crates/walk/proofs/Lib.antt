pub mod Rows
pub mod Moves
pub mod Walks
pub mod Promise
