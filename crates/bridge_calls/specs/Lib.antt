pub mod CommandLine
pub mod Texts
pub mod Causes
pub mod Report
pub mod Ends
pub mod Demo
