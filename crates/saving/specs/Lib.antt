pub mod Salvaged
pub mod Saving
pub mod Lines
pub mod Known
pub mod Repairing
