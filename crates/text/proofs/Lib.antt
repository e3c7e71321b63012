pub mod ExamplesProof
pub mod Putting
pub mod Digits
pub mod Lines
pub mod Roads
pub mod Lengths
