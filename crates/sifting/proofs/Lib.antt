pub mod Judging
pub mod Claiming
pub mod Sifting
