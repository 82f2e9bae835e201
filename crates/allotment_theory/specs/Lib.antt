pub mod Offered
pub mod Fills
pub mod Receipts
pub mod Theorems
pub mod Arrivals
