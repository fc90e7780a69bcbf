-- Crate `checked_examples`: its proof.
pub mod Examples
