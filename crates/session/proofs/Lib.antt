pub mod Verdicts
pub mod Runs
pub mod Plays
pub mod OnlyOne
pub mod Length
