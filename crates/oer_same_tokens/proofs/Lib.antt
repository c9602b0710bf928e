mod Example
mod Lengths
mod Same
mod Steps
mod Tokens
mod Turns
