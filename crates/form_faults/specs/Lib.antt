pub mod Faults
pub mod Scopes
pub mod Terms
pub mod Resources
pub mod Operands
pub mod Indexed
