pub mod ShapeCode
pub mod Parts
pub mod Reading
pub mod Closed
pub mod Sizes
pub mod NodeSizes
pub mod Opening
pub mod Formed
