pub mod Layers
pub mod Table
