-- The theorems on noise: Harmless has the theorem itself, Shorts how large the noise of short elements can be; the rest leads there.
pub mod Harmless
pub mod Shorts
pub mod Products
pub mod Four
pub mod Chunks
