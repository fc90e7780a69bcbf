-- Crate `word`: its laws.
pub mod Bits
pub mod Rotation
pub mod Circuit
pub mod Arrays
pub mod Lists
pub mod Bytes
pub mod Windows
pub mod Xored
pub mod WordAt
pub mod Cases
