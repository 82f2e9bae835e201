pub mod Offers
pub mod Model
pub mod Judgement
pub mod Told
pub mod Soundness
pub mod Finding
pub mod Kept
