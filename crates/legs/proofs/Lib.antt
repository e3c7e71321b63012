pub mod Middles
pub mod Going
pub mod Ending
