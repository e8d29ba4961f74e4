pub mod Choice
pub mod Left
pub mod Lists
pub mod Rows
pub mod Sizes
pub mod Tables
