pub mod Decimals
pub mod Positional
