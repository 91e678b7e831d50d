pub mod Reach
pub mod Trim
pub mod Promise
