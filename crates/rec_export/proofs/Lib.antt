pub mod Texts
pub mod Showing
pub mod Parts
pub mod Sayings
pub mod Numbering
pub mod ShownFrames
pub mod Whole
pub mod Widths
pub mod ShownChannels
mod InterfaceEntries
mod FrameOptions
mod LaterPut
mod Order
mod ShownComments
mod Described
pub mod Leaving
