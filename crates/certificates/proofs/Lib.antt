pub mod Words
pub mod Certified
pub mod Written
pub mod Settled
pub mod Judged
pub mod Rows
