pub mod Query
pub mod Areas
pub mod Answers
pub mod Traces
