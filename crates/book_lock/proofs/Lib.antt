pub mod Upkeep
pub mod Turning
pub mod Opening
pub mod Passes
pub mod Wholes
