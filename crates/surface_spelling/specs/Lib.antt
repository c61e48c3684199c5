pub mod Layout
pub mod Operands
pub mod Blocks
pub mod Spelling
pub mod Erased
