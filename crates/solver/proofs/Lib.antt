pub mod Answers
pub mod Promises
pub mod Collecting
mod Room
