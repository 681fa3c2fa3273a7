pub mod LineCalls
pub mod Theorems
