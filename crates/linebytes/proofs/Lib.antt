pub mod Filed
pub mod OnState
pub mod Theorems
pub mod Together
