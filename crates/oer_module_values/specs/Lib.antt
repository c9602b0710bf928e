pub mod Digits
pub mod Errors
pub mod Kept
pub mod Laws
pub mod Looks
pub mod Numbers
pub mod Types
pub mod Views
