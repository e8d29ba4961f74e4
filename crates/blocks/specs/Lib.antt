pub mod Alike
pub mod Marks
