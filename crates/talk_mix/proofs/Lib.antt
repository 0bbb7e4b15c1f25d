pub mod Blending
pub mod Ranking
pub mod Choosing
