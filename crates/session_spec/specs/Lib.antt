pub mod Talkers
pub mod Events
pub mod Captured
pub mod Answer
pub mod Laws
pub mod Rows
