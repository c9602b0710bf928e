mod Left
mod Steps
