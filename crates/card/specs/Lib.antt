pub mod Access
pub mod Perform
pub mod Step
pub mod Doors
pub mod Opening
pub mod Rows
pub mod OpeningRows
