pub mod Ends
pub mod Before
pub mod Steps
