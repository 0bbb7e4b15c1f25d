pub mod Traffic
pub mod Time
pub mod Kept
pub mod Peers
pub mod Known
