pub mod Words
pub mod Grammar
pub mod Terms
pub mod Operands
pub mod Statements
pub mod Declarations
pub mod Language
pub mod Laws
