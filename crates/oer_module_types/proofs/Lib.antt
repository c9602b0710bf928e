pub mod ClassFields
pub mod Ends
pub mod Parts
pub mod Settled
