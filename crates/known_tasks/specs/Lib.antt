pub mod Known
pub mod Nexts
pub mod Calls
pub mod Laws
