pub mod Running
pub mod Live
pub mod Choices
pub mod Hosts
pub mod Sends
pub mod Likes
pub mod Moment
