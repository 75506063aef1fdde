pub mod Salvages
pub mod Decided
