pub mod Verdicts
pub mod Ways
pub mod Theorems
