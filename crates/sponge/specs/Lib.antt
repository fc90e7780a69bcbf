-- Crate `sponge`: its definitions.
pub mod Sponge
pub mod Record
pub mod Parts
pub mod Streaming
