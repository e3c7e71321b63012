pub mod Ends
pub mod Going
pub mod Leaving
pub mod Owned
pub mod Sequence
