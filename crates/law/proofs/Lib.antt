pub mod Implied
pub mod Labels
pub mod Encoding
pub mod GivenInTurn
pub mod ImplicationRows
pub mod ClauseLists
