pub mod Outcomes
pub mod Feeding
