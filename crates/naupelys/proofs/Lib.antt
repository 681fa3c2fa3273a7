pub mod Together
pub mod Theorems
