pub mod Counts
pub mod Walks
pub mod Ranks
pub mod Elimination
pub mod Orders
