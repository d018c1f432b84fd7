pub mod Encoding
pub mod Recording
pub mod Numbers
pub mod Writers
