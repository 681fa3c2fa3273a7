pub mod Slots
pub mod Theorems
