pub mod Bounds
pub mod Checks
pub mod Layouts
pub mod Fieldwise
pub mod Same
pub mod Rows
pub mod Unmarked
