pub mod Rising
pub mod Laws
