pub mod Tried
pub mod Hearing
pub mod Rests
