pub mod Tips
