-- Crate `calls`: its definitions.
pub mod Answer
pub mod Checks
pub mod Call
pub mod Keyed
pub mod Machine
pub mod Lists
pub mod Law
