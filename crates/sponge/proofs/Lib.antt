-- Crate `sponge`: its laws.
pub mod Places
pub mod Core
pub mod Feeding
pub mod Drawing
pub mod Parts
pub mod Tags
pub mod Calls
pub mod Streaming
pub mod Initial
pub mod Examples
