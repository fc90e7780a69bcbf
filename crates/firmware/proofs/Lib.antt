-- Crate `firmware`: its laws.
pub mod Numbers
