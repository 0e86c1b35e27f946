pub mod Encoding
pub mod ClauseLists
