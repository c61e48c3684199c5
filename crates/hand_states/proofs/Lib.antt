pub mod Marks
pub mod Having
pub mod Closing
