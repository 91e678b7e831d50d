pub mod Laws
pub mod Steps
pub mod Texts
pub mod Choices
pub mod Values
pub mod Spelled
pub mod Bytes
pub mod Words
