pub mod Adding
pub mod Quieting
