pub mod ControlFlow
pub mod Validity
pub mod ByForm
pub mod Masks
pub mod Flaws
pub mod Refusals
