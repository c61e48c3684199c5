pub mod Lists
pub mod Words
pub mod Marks
pub mod Table
pub mod Rule
pub mod Asks
pub mod Plays
pub mod Closing
