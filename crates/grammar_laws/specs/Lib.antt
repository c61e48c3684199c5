pub mod Grammar
pub mod Check
pub mod Laws
pub mod Respan
pub mod Levels
pub mod Example
