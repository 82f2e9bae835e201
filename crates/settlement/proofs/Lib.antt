pub mod Costs
pub mod Marks
pub mod Totals
pub mod Tenders
