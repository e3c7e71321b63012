pub mod Starts
pub mod Turns
pub mod Grow
pub mod Placed
pub mod Finish
