pub mod Feeds
pub mod Turning
pub mod Calls
pub mod Told
