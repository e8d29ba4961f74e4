pub mod Chain
pub mod Read
pub mod Write
pub mod Page
pub mod Rows
