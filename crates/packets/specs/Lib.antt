pub mod Packet
pub mod Hold
pub mod Judge
