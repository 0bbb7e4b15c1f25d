pub mod Copies
pub mod Fronts
pub mod Places
pub mod Comparing
pub mod Handing
pub mod Whole
pub mod Runs
pub mod Sessions
