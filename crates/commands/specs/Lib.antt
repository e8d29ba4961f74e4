pub mod Opcodes
pub mod Sweeps
pub mod Blocks
pub mod Table
