pub mod Taken
pub mod Named
