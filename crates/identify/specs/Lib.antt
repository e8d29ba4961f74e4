pub mod Integrity
pub mod Words
