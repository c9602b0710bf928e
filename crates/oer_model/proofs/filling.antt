-- Lemmas on values with their defaults filled in, or left out.
pub mod FillTwice
pub mod FillFits
pub mod Same
pub mod Trimming
pub mod TrimmedFits
