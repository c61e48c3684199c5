pub mod Standing
pub mod Binding
pub mod Operands
pub mod Places
pub mod Entering
pub mod Unfolding
