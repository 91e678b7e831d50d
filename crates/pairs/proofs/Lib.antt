pub mod Pairing
pub mod Rows
