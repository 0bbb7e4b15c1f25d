pub mod Masks
pub mod Ends
pub mod Compounds
pub mod Sent
