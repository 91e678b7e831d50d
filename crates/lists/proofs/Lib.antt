pub mod Checks
pub mod Merging
pub mod Outcomes
pub mod Plain
