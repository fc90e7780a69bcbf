-- Crate `mode`: its definitions.
pub mod Mode
