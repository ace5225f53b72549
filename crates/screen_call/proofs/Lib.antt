pub mod Order
pub mod Shifted
pub mod Rooms
pub mod Places
pub mod Listing
pub mod Replies
