pub mod Recordable
pub mod Found
pub mod Cut
pub mod Events
pub mod Existence
pub mod OldRecordings
pub mod Theorem
