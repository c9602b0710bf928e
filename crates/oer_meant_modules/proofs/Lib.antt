mod Names
mod Sole
