pub mod Apart
pub mod ApartOperands
pub mod ApartBlocks
pub mod ApartProgram
pub mod Cut
