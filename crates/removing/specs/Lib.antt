pub mod Removed
pub mod Judging
