pub mod Answering
pub mod Shown
pub mod Lines
