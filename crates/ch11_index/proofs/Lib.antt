pub mod Rows
pub mod AllNamed
pub mod BodiesRead
