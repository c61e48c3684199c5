pub mod Headers
pub mod Reading
pub mod Indexes
pub mod Codes
