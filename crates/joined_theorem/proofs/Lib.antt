pub mod ChannelSayings
pub mod Continued
pub mod MovedSayings
pub mod SaidOfChannels
pub mod RunStates
pub mod ApprovedRuns
pub mod OwnIds
