pub mod Amounts
pub mod Formed
pub mod Routes
pub mod Theorems
