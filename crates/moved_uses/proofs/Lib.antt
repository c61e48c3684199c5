pub mod Bags
pub mod Moving
