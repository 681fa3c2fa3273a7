pub mod Done
pub mod Theorems
