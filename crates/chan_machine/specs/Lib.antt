pub mod Reading
pub mod Fits
pub mod Ends
pub mod Looking
pub mod Parking
pub mod Turning
pub mod Faulting
