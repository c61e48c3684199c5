pub mod Needs
pub mod Fits
pub mod Calls
pub mod Laws
