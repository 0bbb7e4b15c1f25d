mod Tracking
mod Placing
mod Hearing
