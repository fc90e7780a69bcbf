-- Crate `permutation`: its definitions.
pub mod Permutation
pub mod Row
pub mod State
