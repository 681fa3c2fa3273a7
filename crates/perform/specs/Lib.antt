pub mod Commands
pub mod Perform
