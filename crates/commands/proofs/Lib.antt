pub mod EachOpcode
pub mod Loops
