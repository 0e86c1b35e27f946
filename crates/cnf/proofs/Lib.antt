pub mod Copies
pub mod Unmet
pub mod Writes
pub mod Satisfied
pub mod Every
