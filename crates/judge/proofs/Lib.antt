pub mod Marking
pub mod Tests
pub mod Thens
