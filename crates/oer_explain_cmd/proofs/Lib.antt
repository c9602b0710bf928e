mod Adds
mod Endings
mod Fails
mod Founds
mod Noted
mod Whys
