pub mod Stages
pub mod Files
pub mod Reading
pub mod Heading
pub mod Running
