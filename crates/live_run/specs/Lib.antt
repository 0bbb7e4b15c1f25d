pub mod Standing
pub mod Sending
pub mod Running
pub mod Ended
