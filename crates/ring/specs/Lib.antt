-- What the ring's contracts and laws are written with.
pub mod Transform
pub mod Elements
pub mod Matrices
pub mod Stages
