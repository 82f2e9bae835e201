pub mod Reading
pub mod Filing
