pub mod Tables
pub mod Counts
pub mod Blank
pub mod Drawn
pub mod Plans
pub mod Told
pub mod Pairs
pub mod Facts
pub mod Degrees
pub mod Cleared
mod Tokens
