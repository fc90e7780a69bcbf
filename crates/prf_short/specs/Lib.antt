-- Crate `prf_short`: its definitions.
pub mod Short
pub mod Call
