pub mod Steady
pub mod Known
pub mod Active
