pub mod Boundaries
pub mod ByteSteps
pub mod Turns
