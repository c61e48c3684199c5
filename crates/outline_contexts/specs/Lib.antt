pub mod Trails
pub mod Kept
pub mod Codes
pub mod Reading
pub mod Growing
pub mod Starting
