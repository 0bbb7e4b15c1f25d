pub mod Taking
pub mod Handing
pub mod Stops
pub mod Ends
pub mod Whole
pub mod BookSide
