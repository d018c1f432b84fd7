pub mod Attributes
pub mod Names
pub mod Dates
pub mod Lines
pub mod Setups
pub mod Sources
