pub mod Lines
pub mod Only
