pub mod Closing
pub mod Laid
pub mod Theorems
