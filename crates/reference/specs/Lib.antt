pub mod Text
pub mod Register
