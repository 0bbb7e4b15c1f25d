pub mod Named
pub mod Listed
pub mod Told
pub mod Kept
pub mod Asking
pub mod Turning
