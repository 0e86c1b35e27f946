pub mod Clauses
pub mod Refusals
pub mod States
pub mod Writing
pub mod Meeting
pub mod Satisfaction
