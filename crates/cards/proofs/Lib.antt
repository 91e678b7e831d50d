pub mod Spots
pub mod Passing
pub mod Checked
pub mod Running
pub mod Written
pub mod Runs
pub mod Parts
