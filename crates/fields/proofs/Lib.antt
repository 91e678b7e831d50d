pub mod Laws
pub mod RoundTrip
pub mod Rows
