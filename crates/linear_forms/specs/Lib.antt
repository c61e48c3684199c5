pub mod Terms
pub mod Normal
pub mod NormalTerms
pub mod Substitution
pub mod Replacing
