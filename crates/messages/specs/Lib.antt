pub mod Tags
pub mod Messages
pub mod Reading
