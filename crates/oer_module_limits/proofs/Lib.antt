pub mod Bounding
pub mod Loops
pub mod Serial
pub mod Views
pub mod Within
