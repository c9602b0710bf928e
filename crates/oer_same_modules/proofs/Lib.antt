mod Odd
mod Modules
