pub mod Versions
pub mod Histories
pub mod InForceAt
