pub mod Walks
pub mod Ranks
pub mod Elimination
pub mod Orders
pub mod Counts
