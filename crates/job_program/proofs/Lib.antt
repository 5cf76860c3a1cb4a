-- Laws of inputs.
pub mod Fronts
