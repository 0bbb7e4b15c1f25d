pub mod Mapped
pub mod Rows
pub mod Seats
pub mod Ages
pub mod Coming
pub mod Refusals
pub mod TickSums
pub mod Rates
