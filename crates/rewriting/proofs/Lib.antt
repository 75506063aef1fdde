pub mod Run
pub mod Only
