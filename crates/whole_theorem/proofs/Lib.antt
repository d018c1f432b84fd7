pub mod WholeFound
