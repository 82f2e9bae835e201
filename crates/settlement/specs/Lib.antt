pub mod Charges
pub mod Receipts
pub mod Bills
pub mod Allotments
pub mod Example
