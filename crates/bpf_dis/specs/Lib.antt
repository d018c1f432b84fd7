pub mod Targets
pub mod ProgramText
pub mod Faults
