pub mod Writes
pub mod Heard
