pub mod Register
pub mod Kinds
pub mod Buyers
pub mod Filing
pub mod Steps
