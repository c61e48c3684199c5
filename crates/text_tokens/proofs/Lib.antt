pub mod Forms
pub mod Longest
pub mod Cuts
pub mod Whole
pub mod Each
pub mod Further
