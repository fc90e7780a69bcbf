-- Crate `listing`: its definitions.
pub mod Listing
