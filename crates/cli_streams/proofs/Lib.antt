pub mod DigitWords
