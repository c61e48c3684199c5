pub mod Adding
pub mod Coefficients
pub mod Loops
pub mod Sizes
pub mod Staying
pub mod Values
