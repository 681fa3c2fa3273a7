pub mod Keys
pub mod Pins
