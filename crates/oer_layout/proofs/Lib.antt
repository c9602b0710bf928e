pub mod Printed
pub mod Pushed
pub mod Laid
pub mod Counted
pub mod Measured
pub mod Spelt
pub mod Celled
