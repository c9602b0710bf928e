pub mod Boundaries
pub mod ByteSteps
pub mod Chars
pub mod LexComplete
pub mod LexSound
pub mod Turns
