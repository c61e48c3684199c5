pub mod Cells
pub mod ValueCode
pub mod Reading
pub mod Ends
pub mod Troubles
