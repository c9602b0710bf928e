pub mod Turns
mod Reserved
