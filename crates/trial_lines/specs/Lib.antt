pub mod Begun
pub mod Fed
pub mod Padded
pub mod Printing
pub mod Reading
pub mod Said
pub mod Text
pub mod Writing
