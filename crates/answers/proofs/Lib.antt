pub mod Checks
pub mod Refusals
pub mod Matched
pub mod Theorems
