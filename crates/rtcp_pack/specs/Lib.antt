pub mod Chunks
pub mod Compound
pub mod Reports
