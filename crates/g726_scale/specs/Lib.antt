pub mod Mix
pub mod Pairs
pub mod Shown
