pub mod Uneven
pub mod OfParts
