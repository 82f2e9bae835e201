pub mod Pieces
pub mod Numbers
pub mod Codes
pub mod Lines
pub mod Files
pub mod Failures
