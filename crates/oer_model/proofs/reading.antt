-- Lemmas on the plain reader: it reads the encodings of a type.
pub mod Parts
pub mod Main
pub mod Sizes
pub mod Payload
pub mod Theorems
