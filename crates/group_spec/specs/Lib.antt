pub mod Groups
pub mod Carry
