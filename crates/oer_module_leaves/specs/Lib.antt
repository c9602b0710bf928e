pub mod Comments
pub mod Leaves
pub mod Numbered
pub mod Shapes
pub mod Texts
