pub mod Without
pub mod Handing
pub mod Sharing
