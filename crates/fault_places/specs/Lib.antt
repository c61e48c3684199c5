pub mod Spans
pub mod Programs
pub mod SurfaceTrees
pub mod Laws
