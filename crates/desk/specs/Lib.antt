pub mod Ears
pub mod Channels
pub mod Kept
pub mod Standing
pub mod Turning
