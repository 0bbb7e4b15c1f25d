pub mod Splitting
pub mod Forms
pub mod Seats
pub mod Rooms
pub mod Readers
pub mod Ranges
pub mod Ordering
