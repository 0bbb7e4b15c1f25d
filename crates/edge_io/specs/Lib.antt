pub mod Told
pub mod Answers
pub mod Kept
pub mod File
pub mod Plan
pub mod Named
pub mod Planned
