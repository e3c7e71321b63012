pub mod Contents
pub mod Goals
