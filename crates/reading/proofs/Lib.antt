pub mod OnePacket
pub mod Theorems
