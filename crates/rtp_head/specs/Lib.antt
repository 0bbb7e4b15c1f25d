pub mod Rtp
pub mod Packet
