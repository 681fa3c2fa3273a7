mod Allowed
mod Rows
pub mod Effects
pub mod Others
pub mod Outcomes
pub mod Calls
pub mod Lines
pub mod Fits
pub mod Runs
pub mod Played
pub mod Stories
mod Worked
pub mod Theorems
pub mod Said
pub mod Standing
pub mod Registers
pub mod Refusals
pub mod Cutting
pub mod Library
