pub mod Changes
pub mod Codes
pub mod Paints
pub mod Places
pub mod Sizes
pub mod Symbols
pub mod Theorems
pub mod Turns
