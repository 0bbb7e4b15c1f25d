pub mod Progress
pub mod NamedFiles
