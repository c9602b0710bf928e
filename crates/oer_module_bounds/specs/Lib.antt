pub mod Hull
pub mod Laws
pub mod Loose
pub mod Numbers
pub mod Sets
pub mod Steps
pub mod Tally
