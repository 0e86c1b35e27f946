pub mod Cleared
pub mod DistinctLists
pub mod First
mod Lowest
pub mod Found
pub mod OrderLaw
pub mod Replaced
pub mod RightAnswer
pub mod RingLaw
pub mod RingPipes
pub mod SameFindings
pub mod Steps
pub mod TurnedLists
pub mod Walks
