-- Crate `permutation`: its laws.
pub mod Sbox
pub mod Rounds
pub mod State
pub mod Row
