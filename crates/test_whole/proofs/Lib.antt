pub mod FileOfBytes
