pub mod Measuring
pub mod Running
pub mod Whole
