pub mod Added
pub mod Behind
pub mod Covered
pub mod Greatest
pub mod Numbers
pub mod Writing
