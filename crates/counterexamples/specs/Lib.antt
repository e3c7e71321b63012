pub mod Needed
pub mod PartsNeeded
