pub mod Instances
pub mod Resources
