pub mod Scan
pub mod Walk
pub mod Line
