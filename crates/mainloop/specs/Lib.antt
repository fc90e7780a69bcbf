-- Crate `mainloop`: its definitions.
pub mod Rounds
pub mod Kept
