pub mod Writing
pub mod Decimals
pub mod Readers
pub mod RoundTrip
pub mod Examples
