pub mod Calling
pub mod Judged
pub mod Opening
