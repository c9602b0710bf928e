mod Splitting
mod Onward
mod Going
pub mod Calling
pub mod Reaching
pub mod Typing
