pub mod Compose
