pub mod Alternatives
pub mod Headers
pub mod Laws
pub mod Outermost
pub mod Views
pub mod Written
