pub mod Forms
pub mod Theorems
