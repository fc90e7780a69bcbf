-- Crate `word`: its definitions.
pub mod Word
pub mod Bytes
