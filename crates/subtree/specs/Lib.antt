pub mod Known
pub mod Active
