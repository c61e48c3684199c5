pub mod Stacks
pub mod Codes
pub mod Settings
pub mod Checks
