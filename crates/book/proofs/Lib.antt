pub mod Codes
pub mod Entering
pub mod Firsts
pub mod Keeping
pub mod Listing
pub mod Searching
pub mod Totals
