-- Lemmas on the plain checker: it tells whether octets are canonical.
pub mod Checked
pub mod CheckedParts
pub mod Judged
pub mod CheckedLeaves
