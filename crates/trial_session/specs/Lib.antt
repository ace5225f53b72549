pub mod Held
pub mod Session
