pub mod Voices
pub mod Choice
pub mod Mix
pub mod Inside
pub mod Fronts
