pub mod Stages
pub mod Found
