-- The three demands, a file each: Demand1, Demand2, Demand3. The others hold what they are stated with.
pub mod Outcomes
pub mod Calls
pub mod Answered
pub mod Table
pub mod Demand1
pub mod Demand2
pub mod Demand3
