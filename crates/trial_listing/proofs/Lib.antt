pub mod Listed
pub mod Whole
