pub mod Ends
pub mod Reading
pub mod Meaning
pub mod Holding
pub mod Following
pub mod Steps
