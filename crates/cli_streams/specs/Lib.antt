pub mod Digits
pub mod Endings
pub mod Listed
pub mod OwnPlaces
