-- Crate `state`: its definitions.
pub mod State
