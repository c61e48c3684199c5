pub mod NamePairs
pub mod Sums
