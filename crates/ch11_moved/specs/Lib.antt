pub mod MovedCounters
pub mod FileStarts
