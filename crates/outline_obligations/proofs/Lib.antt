pub mod Certificates
pub mod Reasons
pub mod Rows
pub mod Steps
