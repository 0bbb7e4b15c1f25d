pub mod Numbers
pub mod Steps
pub mod Unpacking
pub mod RoundTrips
pub mod Bundles
