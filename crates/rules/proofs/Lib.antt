pub mod Alone
pub mod OneRoad
