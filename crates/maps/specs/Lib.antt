pub mod Spaces
pub mod Offsets
pub mod Places
pub mod Rows
