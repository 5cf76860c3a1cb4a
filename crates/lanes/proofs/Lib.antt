-- Laws of the samplers and of message lanes, and the points at the edges.
pub mod Samplers
pub mod Messages
pub mod Points
