pub mod Characters
pub mod FallsInto
pub mod Laws
pub mod LeafWords
pub mod Lexing
pub mod Token
