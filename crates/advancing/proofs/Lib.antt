pub mod Placing
pub mod Starting
