-- Crate `vectors`: its laws.
pub mod Messages
pub mod Lines
