-- Crate `checks`: its definitions.
pub mod Checks
pub mod Refusals
pub mod Buffers
pub mod Equality
pub mod Joined
