pub mod Bytes
pub mod Composing
pub mod Judgements
pub mod Theorems
