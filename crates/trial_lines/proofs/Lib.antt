pub mod Bytes
pub mod Digits
pub mod Joined
pub mod Padded
pub mod Printing
pub mod ReadBack
pub mod Short
