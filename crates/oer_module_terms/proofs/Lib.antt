pub mod Joining
pub mod Readers
pub mod SameTurns
pub mod Series
pub mod Takes
pub mod Views
