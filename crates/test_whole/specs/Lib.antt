pub mod WholeFileOf
