pub mod Closing
pub mod ClosingLaws
