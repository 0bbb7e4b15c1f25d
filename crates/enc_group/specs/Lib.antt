pub mod Groups
pub mod Part
pub mod Few
pub mod Mixes
pub mod Inside
pub mod Wanted
