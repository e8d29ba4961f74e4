pub mod Fits
pub mod Heads
