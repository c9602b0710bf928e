pub mod Levels
pub mod Printed
