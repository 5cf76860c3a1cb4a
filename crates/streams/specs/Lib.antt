-- What the contracts of reading and writing cite.
pub mod Counts
