pub mod Listeners
pub mod Asking
pub mod Stopping
pub mod Calling
