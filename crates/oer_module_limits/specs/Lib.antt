pub mod Ends
pub mod Errors
pub mod Kinds
pub mod Limits
pub mod Marks
pub mod Sets
pub mod Views
pub mod Written
