pub mod Tests
pub mod WordCodes
