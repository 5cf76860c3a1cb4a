-- What the theorems on noise are stated with.
pub mod Noise
