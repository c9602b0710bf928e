-- Lemmas on types and values without parts, their contents, and what fits a type.
pub mod Leaves
pub mod Strings
pub mod Tests
pub mod Contents
pub mod Forms
pub mod Fitting
pub mod FitTests
pub mod Ranges
pub mod NumberSteps
