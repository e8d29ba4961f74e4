pub mod Limits
pub mod Address
pub mod Next
pub mod Shape
pub mod Codes
