pub mod Skeleton
pub mod Weight
pub mod Sound
pub mod Seen
pub mod Laws
