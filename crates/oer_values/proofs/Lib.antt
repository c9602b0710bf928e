pub mod Values
pub mod Shapes
pub mod FitSteps
pub mod Lookups
pub mod FillSteps
pub mod TagSteps
