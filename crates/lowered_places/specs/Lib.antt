pub mod Agains
pub mod Laws
