pub mod Marks
pub mod Sectors
pub mod Stored
