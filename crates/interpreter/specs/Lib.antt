-- Crate `interpreter`: its definitions.
pub mod Script
pub mod Session
pub mod Promises
pub mod Theorems
