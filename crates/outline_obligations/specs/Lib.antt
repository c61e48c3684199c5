pub mod Reasons
pub mod Cursors
