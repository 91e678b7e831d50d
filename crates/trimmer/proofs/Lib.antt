pub mod Halves
pub mod Marking
pub mod Naming
pub mod Numbering
pub mod Writing
pub mod Answers
