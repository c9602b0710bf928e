pub mod Denoted
pub mod GivenNumbers
pub mod Items
pub mod Lists
pub mod References
pub mod Turns
pub mod Walks
pub mod Wholes
