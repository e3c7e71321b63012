-- The definitions that the contracts cite.
pub mod Found
pub mod Nearest
pub mod Places
pub mod Points
pub mod Rows
