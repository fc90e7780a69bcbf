-- Crate `frame`: its laws.
pub mod Laws
pub mod Sealing
pub mod Examples
