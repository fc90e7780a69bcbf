-- Crate `testbench`: its definitions.
pub mod Chain
pub mod Sponge
pub mod Feeds
