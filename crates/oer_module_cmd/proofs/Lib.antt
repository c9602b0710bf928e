pub mod Left
mod Steps
mod Texts
