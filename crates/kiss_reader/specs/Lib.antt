pub mod Storing
pub mod Sizing
pub mod Reading
pub mod Read
