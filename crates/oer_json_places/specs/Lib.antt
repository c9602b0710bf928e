pub mod Rejected
pub mod Faultless
pub mod Next
pub mod Views
pub mod Place
pub mod Leads
pub mod Laws
