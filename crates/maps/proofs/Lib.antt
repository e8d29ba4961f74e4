pub mod ReadValue
pub mod SameOffset
pub mod SixFirst
pub mod Standings
