pub mod Levels
pub mod Mailing
