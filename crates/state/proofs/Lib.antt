-- Crate `state`: its laws.
pub mod Words
pub mod Chunks
pub mod Copying
pub mod Starts
