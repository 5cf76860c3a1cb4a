-- Definitions that other crates' definitions are written with.
pub mod Lists
pub mod Choices
pub mod Tests
pub mod Bits
pub mod Congruence
pub mod Rings
pub mod Sums
pub mod Digits
pub mod Points
pub mod Integers
