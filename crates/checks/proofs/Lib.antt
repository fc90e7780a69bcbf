-- Crate `checks`: its laws.
pub mod Checks
pub mod Buffers
pub mod Equality
pub mod Refusals
