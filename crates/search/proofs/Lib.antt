pub mod Turns
pub mod First
pub mod Passes
pub mod Searching
