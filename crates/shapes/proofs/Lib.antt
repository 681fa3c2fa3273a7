pub mod Numbers
pub mod Rows
pub mod Laid
pub mod Laws
pub mod Theorems
