pub mod Depths
pub mod Lines
pub mod Asking
pub mod Endings
