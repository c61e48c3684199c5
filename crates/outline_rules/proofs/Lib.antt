pub mod Names
pub mod Ranges
pub mod Adding
pub mod Terms
