pub mod Numbers
pub mod Records
pub mod Taken
pub mod Lines
pub mod LineTaken
pub mod Written
pub mod LineLaws
pub mod CaptureLaws
mod Held
pub mod Follows
mod Begun
