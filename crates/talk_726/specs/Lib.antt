pub mod Decoding
pub mod Kept
