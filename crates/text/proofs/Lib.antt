pub mod Outputs
pub mod Texts
pub mod Hex
pub mod Numerals
pub mod OnlyOne
pub mod Length
