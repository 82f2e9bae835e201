pub mod Arranged
pub mod Behind
pub mod Listed
pub mod Ranks
