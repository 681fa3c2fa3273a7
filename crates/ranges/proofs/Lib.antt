pub mod InRange
pub mod Theorems
