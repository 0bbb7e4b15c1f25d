pub mod Run
pub mod Decoder
pub mod Joined
