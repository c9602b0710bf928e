pub mod Choices
pub mod Followed
pub mod Loops
pub mod Sole
pub mod Tagging
pub mod Turns
