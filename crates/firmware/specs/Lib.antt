-- Crate `firmware`: its definitions.
pub mod Firmware
