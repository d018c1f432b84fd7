pub mod History
pub mod Slots
pub mod Fronts
pub mod Since
