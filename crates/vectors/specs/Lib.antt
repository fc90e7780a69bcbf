-- Crate `vectors`: its definitions.
pub mod Messages
pub mod Lines
