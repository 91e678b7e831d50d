pub mod Card
pub mod Checking
pub mod Run
pub mod Kept
