-- docs/SCHEME.md, "Keys and packets" and "Layouts", and demand 3 about them.
pub mod Parameters
pub mod Packets
pub mod Layout
pub mod Opening
pub mod Keys
