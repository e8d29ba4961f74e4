pub mod Tests
pub mod OnlyOne
pub mod Lists
pub mod Picks
pub mod Tables
pub mod Every
pub mod Below
