pub mod Unique
pub mod Placing
pub mod Untold
