pub mod Plain
pub mod Places
pub mod Steps
pub mod BitView
pub mod Check
pub mod Numbers
pub mod Facts
