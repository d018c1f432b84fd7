pub mod WholeTheorem
