pub mod Counts
pub mod Fronts
pub mod Keeps
pub mod Places
pub mod Shifts
pub mod Strict
