pub mod Walked
pub mod Numbered
