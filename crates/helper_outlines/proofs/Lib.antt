pub mod Steps
pub mod Certificates
pub mod Standing
pub mod Alike
pub mod Ways
pub mod Instances
pub mod Sending
