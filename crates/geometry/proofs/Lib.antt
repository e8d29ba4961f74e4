pub mod Bounds
pub mod LimitFacts
pub mod Shapes
pub mod Inside
pub mod Kept
pub mod NextLaw
pub mod Runs
