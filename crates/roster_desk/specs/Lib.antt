pub mod Serving
pub mod Left
pub mod Applied
