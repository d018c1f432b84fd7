pub mod Counts
pub mod Exports
pub mod Written
pub mod Lines
pub mod Printed
