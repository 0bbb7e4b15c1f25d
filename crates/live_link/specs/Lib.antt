pub mod Rounds
pub mod Posts
