pub mod ShownLimits
pub mod TakenInstances
