pub mod Lists
pub mod Plain
pub mod Merging
