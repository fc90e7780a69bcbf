-- Crate `listing`: its laws.
pub mod Lists
