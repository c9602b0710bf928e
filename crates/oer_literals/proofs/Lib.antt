pub mod Lists
pub mod Names
pub mod Numerals
pub mod Digits
