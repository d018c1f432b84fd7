pub mod NumberPlaces
pub mod Putting
pub mod OneChannelRecordings
