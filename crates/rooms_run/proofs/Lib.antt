pub mod Fresh
pub mod Zips
pub mod Comings
pub mod Runs
pub mod Ending
pub mod Lines
pub mod Answered
