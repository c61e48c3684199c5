pub mod Members
pub mod Reaching
pub mod Telling
pub mod Tasks
pub mod Ending
pub mod Laws
