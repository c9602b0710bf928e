pub mod Spans
pub mod Lexed
pub mod Trees
pub mod Modules
