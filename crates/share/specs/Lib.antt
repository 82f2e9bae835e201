pub mod Answers
pub mod Asked
pub mod Report
pub mod Rules
