pub mod Layout
pub mod Check
pub mod Fields
pub mod Unmarked
