pub mod Members
pub mod Awaiting
pub mod Placing
pub mod Carrying
pub mod Twins
