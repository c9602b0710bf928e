mod Visibly
mod Characters
mod Standing
mod Told
