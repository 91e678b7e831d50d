pub mod Form
pub mod Places
pub mod Cursors
