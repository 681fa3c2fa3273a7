pub mod Reply
pub mod Listen
