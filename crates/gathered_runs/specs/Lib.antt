pub mod Complete
pub mod Gathered
pub mod Driving
pub mod Closing
