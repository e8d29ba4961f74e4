pub mod Sound
pub mod Lent
pub mod Allowed
