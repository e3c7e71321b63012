pub mod Likeness
pub mod NeededProof
pub mod PartsNeededProof
