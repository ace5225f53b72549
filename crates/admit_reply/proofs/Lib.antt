pub mod OwnHash
