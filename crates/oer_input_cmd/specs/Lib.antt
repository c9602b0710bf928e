pub mod Asked
pub mod Errors
pub mod Given
pub mod Input
