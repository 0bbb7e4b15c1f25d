pub mod Spelling
pub mod Capture
pub mod Faults
pub mod Reading
pub mod Standing
pub mod Writing
