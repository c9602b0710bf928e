pub mod Asked
pub mod Shown
pub mod TypesRead
pub mod ToldBy
pub mod Ends
pub mod Terminal
