pub mod Laying
pub mod Turning
pub mod Saying
pub mod Ordering
pub mod Repeating
