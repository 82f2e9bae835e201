pub mod Known
pub mod Standing
pub mod Accepting
