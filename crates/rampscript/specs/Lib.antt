-- Crate `rampscript`: its definitions.
pub mod Program
