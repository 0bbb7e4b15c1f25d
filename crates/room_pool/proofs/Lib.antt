pub mod Texts
pub mod Filling
pub mod Lines
pub mod Turning
pub mod InTurn
