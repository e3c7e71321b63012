pub mod Fronts
pub mod Ways
pub mod KeysSame
