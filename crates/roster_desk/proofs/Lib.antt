pub mod Feeding
pub mod Going
pub mod Asking
pub mod Rising
pub mod Leaving
pub mod Talking
