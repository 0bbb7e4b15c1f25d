pub mod CommandLine
pub mod Causes
pub mod Texts
pub mod Asked
pub mod Ends
pub mod Steps
