pub mod Advancing
pub mod Quiet
