pub mod Powers
pub mod Lookups
pub mod CodeLevels
pub mod Thresholds
