pub mod Resources
pub mod Headers
