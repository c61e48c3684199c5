pub mod Bytes
pub mod Spelled
pub mod SpelledBlocks
pub mod Places
pub mod PlacesOfBlocks
