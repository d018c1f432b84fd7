pub mod Pieces
pub mod Merging
pub mod Kept
pub mod Placing
pub mod Parts
pub mod Short
pub mod Waiting
