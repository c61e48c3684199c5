pub mod Reading
pub mod Rows
pub mod Indexed
pub mod Putting
pub mod Listing
