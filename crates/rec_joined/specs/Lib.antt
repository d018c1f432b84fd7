pub mod MovedRecords
pub mod Moving
pub mod MovedFrames
pub mod MovedPackets
pub mod JoinedPackets
pub mod JoinedListings
pub mod JoinedFrames
