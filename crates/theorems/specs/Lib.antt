pub mod Other
pub mod Run
pub mod Story
pub mod Library
pub mod Cuts
pub mod Worked
