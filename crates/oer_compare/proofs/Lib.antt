pub mod Sames
pub mod Choices
pub mod Complete
pub mod BothWays
pub mod Older
pub mod Told
pub mod Onward
pub mod Relayed
