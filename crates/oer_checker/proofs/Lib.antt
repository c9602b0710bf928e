pub mod Joins
mod UnitSteps
mod ShortUnits
pub mod LengthSteps
mod NumberSteps
pub mod Exits
mod StringSteps
pub mod BitLists
mod LastBits
mod BitSteps
pub mod TagSteps
pub mod FieldSteps
mod Shapes
pub mod Sizes
pub mod FrontSteps
pub mod TypeSteps
pub mod PartSteps
pub mod ShapeCases
