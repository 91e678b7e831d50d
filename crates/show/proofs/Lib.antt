mod Laws
pub mod Rows
