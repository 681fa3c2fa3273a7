pub mod Events
pub mod KeyCalls
pub mod Theorems
