-- Crate `checked_examples`: its statement.
pub mod Examples
