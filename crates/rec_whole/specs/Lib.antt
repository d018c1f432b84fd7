pub mod Ends
pub mod NamedChannels
pub mod WholeRecordings
pub mod WholeFrames
pub mod ToldOfChannels
pub mod FilesFound
