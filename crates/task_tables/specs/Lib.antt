pub mod Tables
pub mod Numbered
pub mod Fits
pub mod Ends
