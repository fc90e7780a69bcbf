-- Crate `mainloop`: its laws.
pub mod RoundList
pub mod Kept
