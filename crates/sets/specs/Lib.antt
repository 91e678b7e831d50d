pub mod Mask
pub mod Bounded
pub mod Family
pub mod Calls
