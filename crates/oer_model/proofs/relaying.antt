-- Lemmas on what an older type reads and writes of a newer one.
pub mod Older
pub mod Relayed
pub mod RelayedChoice
pub mod Relaying
