pub mod Machine
pub mod State
pub mod Status
pub mod Blocks
pub mod WellMade
pub mod Values
pub mod PowerOn
pub mod Resets
