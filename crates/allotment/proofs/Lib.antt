pub mod Accepted
pub mod Buyers
pub mod Filed
pub mod Promises
pub mod Rows
pub mod Totals
