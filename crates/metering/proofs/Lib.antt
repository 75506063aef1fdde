pub mod Shortening
pub mod Placing
pub mod Only
