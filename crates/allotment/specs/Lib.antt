pub mod Rows
pub mod Judgement
pub mod Promise
pub mod Sides
