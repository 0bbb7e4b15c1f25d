pub mod Histories
pub mod Boxed
pub mod Views
pub mod Rule
pub mod Told
pub mod Turns
pub mod Known
