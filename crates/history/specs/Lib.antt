pub mod Merging
pub mod Texts
