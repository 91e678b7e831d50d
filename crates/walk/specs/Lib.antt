pub mod Walk
pub mod Promise
