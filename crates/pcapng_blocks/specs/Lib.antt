pub mod Bytes
pub mod Options
pub mod Blocks
pub mod Reading
pub mod Outputs
pub mod Views
