pub mod Halves
pub mod Marking
pub mod Numbering
pub mod Trimmer
