pub mod Demands
pub mod Ranges
