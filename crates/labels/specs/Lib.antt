pub mod Called
pub mod Roled
