pub mod Compare
pub mod Places
pub mod Whole
