pub mod Automatic
pub mod Kept
pub mod Laws
pub mod Numbered
pub mod Numbering
pub mod Tags
pub mod Universal
