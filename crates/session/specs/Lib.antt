pub mod Run
pub mod Play
