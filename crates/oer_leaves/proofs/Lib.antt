pub mod Steps
mod Numbers
mod PackSteps
pub mod Places
pub mod Views
pub mod Components
mod ShortNumbers
mod Forms
