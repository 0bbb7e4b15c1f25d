pub mod CommandLine
pub mod Samples
pub mod Streams
pub mod Causes
pub mod Texts
