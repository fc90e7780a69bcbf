-- Crate `mode`: its laws.
pub mod Modes
pub mod StartWords
