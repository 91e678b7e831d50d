pub mod Halving
pub mod Posting
