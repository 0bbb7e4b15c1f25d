pub mod Masks
pub mod Written
pub mod Spelled
pub mod Found
