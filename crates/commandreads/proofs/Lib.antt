mod Names
pub mod Theorems
