pub mod Counting
pub mod Theorems
