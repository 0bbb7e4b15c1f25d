pub mod Histories
pub mod Words
pub mod Rings
pub mod Kept
pub mod Standing
pub mod Rows
pub mod Laws
