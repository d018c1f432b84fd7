pub mod Concluded
pub mod MovedFrames
pub mod MovedClasses
pub mod MovedTimes
pub mod ListedSoFar
pub mod PartsRead
pub mod ToldPackets
pub mod JoinedFrames
