pub mod Machine
pub mod Prepared
pub mod Views
