-- What a path costs, in its order.
pub mod Metres
pub mod Roads
pub mod Outcome
pub mod Theorems
pub mod Examples
