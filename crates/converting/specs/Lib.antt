pub mod Outcomes
pub mod Rounding
pub mod Conversions
pub mod Formula
pub mod Hotter
