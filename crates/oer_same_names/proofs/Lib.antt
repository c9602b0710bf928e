pub mod Found
pub mod Ways
pub mod Written
pub mod Tags
