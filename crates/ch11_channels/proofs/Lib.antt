pub mod TakenFlags
pub mod FileNumbering
