pub mod Applied
pub mod Laws
