pub mod Rejections
pub mod Handing
