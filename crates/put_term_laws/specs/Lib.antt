pub mod PutTerms
pub mod MadeNames
pub mod Under
pub mod Shapes
