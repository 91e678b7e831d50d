pub mod Write
pub mod Lines
