pub mod Expanding
pub mod Ears
pub mod Members
pub mod Seating
pub mod Hearing
pub mod Ways
pub mod Silent
pub mod Turned
