-- Crate `day`: its laws.
pub mod Plans
