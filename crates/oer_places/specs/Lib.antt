pub mod Visible
pub mod Parts
pub mod Place
pub mod Quoting
pub mod Looks
pub mod Input
