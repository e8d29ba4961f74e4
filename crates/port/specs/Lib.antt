pub mod Halves
pub mod Data
