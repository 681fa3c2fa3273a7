pub mod Glyphs
pub mod Source
