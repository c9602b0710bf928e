pub mod AutomaticLaw
pub mod FreeNumbers
pub mod Lasts
pub mod NumberLaws
pub mod NumberSets
pub mod NumberSteps
