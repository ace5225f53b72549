pub mod Faults
pub mod Left
pub mod Notes
pub mod Texts
