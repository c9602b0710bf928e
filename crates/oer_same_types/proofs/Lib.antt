pub mod Clear
pub mod Elements
mod Gathering
pub mod Ordinary
pub mod Types
mod Defaults
pub mod Leaves
mod Same
mod SoundFits
pub mod Sound
