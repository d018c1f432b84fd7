pub mod PartsGoing
pub mod HandPieces
pub mod PlacedPackets
pub mod SourcesTaken
pub mod Listed
pub mod ChannelsListed
pub mod PiecesPlaced
pub mod RecordingListed
