pub mod Lexing
pub mod Token
