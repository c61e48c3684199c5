pub mod Fronts
pub mod Within
pub mod Turns
pub mod Answered
