-- Crate `day`: its definitions.
pub mod Day
