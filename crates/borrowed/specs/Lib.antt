-- Crate `borrowed`: its definitions.
pub mod Borrows
pub mod Elements
pub mod Results
