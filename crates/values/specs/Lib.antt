pub mod Fields
pub mod Values
pub mod Spelling
pub mod Decoding
pub mod Encoding
