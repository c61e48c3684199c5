pub mod Protocols
pub mod Reading
pub mod Indexes
pub mod Codes
