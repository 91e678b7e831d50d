pub mod Logic
pub mod Bounded
pub mod Fills
pub mod Mask
pub mod Family
