-- Lemmas on the parts of an encoding, and where a path leads.
pub mod Splitting
pub mod Pieces
pub mod Finding
