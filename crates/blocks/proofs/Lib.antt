pub mod Found
pub mod Walking
