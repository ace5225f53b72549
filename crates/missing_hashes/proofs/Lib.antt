pub mod Waits
pub mod Parts
