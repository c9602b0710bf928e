-- Lemmas on the faults of a type.
pub mod FaultTests
pub mod Faults
