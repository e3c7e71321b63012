pub mod AddOrder
pub mod Fronts
pub mod Heads
pub mod LeftLaws
pub mod NextLaws
pub mod NextHeld
