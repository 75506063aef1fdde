pub mod Whole
pub mod Bare
pub mod Answered
pub mod PartPlace
