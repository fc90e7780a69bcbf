-- Crate `prf_short`: its laws.
pub mod Short
pub mod Refusals
pub mod Examples
