pub mod Telling
pub mod Whole
mod Counted
mod Widths
mod Items
mod Named
mod Same
mod Taken
pub mod Limited
