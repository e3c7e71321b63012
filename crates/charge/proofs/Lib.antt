pub mod ExamplesProof
pub mod Started
pub mod SheetRange
pub mod Charging
pub mod Sums
pub mod Orders
pub mod Proved
