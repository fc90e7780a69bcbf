-- Crate `rampscript`: its laws.
pub mod Chunks
pub mod Turns
