pub mod InOrder
pub mod Counted
pub mod Puts
pub mod Apart
pub mod Renamed
pub mod Numbers
pub mod Shapes
