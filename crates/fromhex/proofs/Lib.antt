pub mod Judging
pub mod Walking
pub mod Ending
pub mod Only
pub mod Back
pub mod Enough
pub mod Some
pub mod Rows
