pub mod Parts
pub mod Storing
pub mod Lines
pub mod Answers
pub mod Promises
