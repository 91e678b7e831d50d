pub mod Laws
pub mod Plays
pub mod Rows
pub mod Control
