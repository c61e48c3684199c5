pub mod Splits
pub mod Sizes
