pub mod Drawing
pub mod Sending
pub mod Fitting
