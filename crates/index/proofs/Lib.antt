pub mod Sizes
pub mod Marking
pub mod Layering
pub mod Climbing
pub mod Answer
pub mod Noting
pub mod Settled
