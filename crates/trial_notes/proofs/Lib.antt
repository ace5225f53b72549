pub mod Chunks
pub mod Pieces
pub mod Room
pub mod Told
pub mod Whole
