-- What the contracts of samplers and message lanes are written with, and the points of docs/SCHEME.md, "Points at the edges".
pub mod FourLanes
pub mod Samplers
pub mod Messages
pub mod Points
