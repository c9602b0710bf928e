-- Lemmas on canonical octets: each value has one list of them, and this is the computed one.
pub mod Canonical
pub mod StrictEnc
pub mod Bridge
pub mod Computed
pub mod Given
pub mod Again
pub mod StrictOctets
pub mod CanonicalForms
