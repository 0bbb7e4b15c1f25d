pub mod Watched
pub mod Runs
pub mod Counting
