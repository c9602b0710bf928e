mod Words
mod Lines
mod Endings
