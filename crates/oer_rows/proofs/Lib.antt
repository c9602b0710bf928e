pub mod Folds
mod LineSteps
mod LineLaws
mod LineForms
mod ListingSteps
mod LinePaths
mod LineParts
mod LineSplits
mod Distinct
mod LineNames
