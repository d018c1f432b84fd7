pub mod FreeIds
pub mod GivenIds
pub mod NamedIds
pub mod Runs
