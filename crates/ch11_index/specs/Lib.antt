pub mod IndexBytes
pub mod FileIndex
pub mod Rooms
pub mod IndexRead
pub mod IndexBodies
