pub mod Text
pub mod Profile
pub mod Idle
pub mod Legible
pub mod Promise
