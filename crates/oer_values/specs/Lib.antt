pub mod ValueView
pub mod ShapeView
pub mod FormView
pub mod AlphabetView
pub mod DefaultView
pub mod Lookup
