pub mod Walk
pub mod Handing
pub mod Path
pub mod Encoding
pub mod AtMostOne
pub mod Offsets
pub mod Ranges
pub mod Last
