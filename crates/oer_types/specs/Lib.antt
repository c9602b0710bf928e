pub mod Schema
pub mod Counting
pub mod Widths
pub mod AnyFault
pub mod Ascending
pub mod NameOrder
