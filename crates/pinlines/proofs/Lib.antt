pub mod Lining
pub mod Only
pub mod Rows
