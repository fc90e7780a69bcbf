-- Crate `script`: its definitions.
pub mod Text
pub mod Writing
pub mod Number
pub mod Hex
pub mod Line
pub mod Answer
pub mod Input
pub mod Parsed
pub mod Laws
