pub mod Standing
pub mod Moving
pub mod Sending
pub mod Telling
pub mod Ticking
pub mod Closing
