-- Laws that the other crates cite as Rattle.ring.proofs.NAME.
pub mod Residue
pub mod Roots
pub mod Transforms
pub mod Products
pub mod Remainders
pub mod Polynomials
pub mod Cells
pub mod Matrices
pub mod Blocks
pub mod Places
pub mod Forward
pub mod Zetas
pub mod Backward
pub mod Dots
