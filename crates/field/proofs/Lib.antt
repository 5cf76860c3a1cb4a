-- Laws of the field; those that other crates cite come first.
pub mod Fermat
pub mod Elements
pub mod Inverses
pub mod Reduction
