pub mod Members
pub mod Roster
pub mod Commands
pub mod Turns
pub mod Draws
pub mod Capture
