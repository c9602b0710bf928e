mod Elements
mod Fields
mod Gathering
mod Holding
mod Needs
mod Sole
mod Types
