-- Crate `interpreter`: its laws.
pub mod Calling
pub mod Meaning
pub mod Steps
pub mod Consuming
pub mod Filling
pub mod Holding
pub mod Short
pub mod Advancing
pub mod FillLoop
pub mod Ending
pub mod Bounds
pub mod Whole
pub mod Theorems
pub mod Examples
