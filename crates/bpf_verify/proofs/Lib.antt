pub mod InsnPlaces
pub mod Breaks
pub mod Valid
pub mod WellFormed
pub mod Arrivals
pub mod Bits
pub mod Walks
pub mod UnsetReads
