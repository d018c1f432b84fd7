pub mod ClosingTimes
