-- Crate `hub`: its laws.
pub mod Locating
pub mod Calls
pub mod ByRecord
pub mod Model
pub mod Tickets
pub mod Represents
pub mod Agree
pub mod Law
pub mod Examples
