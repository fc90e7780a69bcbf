-- Crate `hub`: its definitions.
pub mod Hub
pub mod Records
pub mod Law
