pub mod Text
pub mod Array
pub mod Cells
pub mod Layout
pub mod Outgoing
pub mod Pages
pub mod Printing
