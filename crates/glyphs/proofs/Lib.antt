pub mod Every
pub mod Flat
pub mod Theorems
