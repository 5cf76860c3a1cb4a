-- The proofs of the three demands.
pub mod Answered
pub mod Table
pub mod Causes
pub mod Jobs
pub mod Ends
pub mod Demand1
pub mod Demand2
pub mod Demand3
