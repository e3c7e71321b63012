-- The text that the list program prints, and what the contracts say of a lent buffer.
pub mod Text
pub mod Examples
pub mod Theorem
pub mod Buffer
