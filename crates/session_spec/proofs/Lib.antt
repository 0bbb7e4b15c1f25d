pub mod Own
pub mod Listening
pub mod Following
pub mod Cutting
