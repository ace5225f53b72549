pub mod Recount
pub mod Turns
