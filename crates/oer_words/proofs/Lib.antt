mod Stripping
pub mod Asking
