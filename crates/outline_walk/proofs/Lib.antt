pub mod Chains
pub mod Arms
pub mod Forms
pub mod Sizes
pub mod Walks
