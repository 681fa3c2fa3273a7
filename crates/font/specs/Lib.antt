pub mod Font
