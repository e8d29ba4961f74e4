pub mod Rows
pub mod Cards
