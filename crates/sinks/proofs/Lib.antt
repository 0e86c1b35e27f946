pub mod Forms
pub mod Guards
pub mod Offsets
pub mod Piles
pub mod Tables
