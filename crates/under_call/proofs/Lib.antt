pub mod Lists
pub mod Levels
pub mod Down
pub mod Replies
mod Higher
