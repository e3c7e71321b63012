pub mod AlikeSheets
pub mod AlikeBytes
pub mod ClosedProof
