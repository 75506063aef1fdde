pub mod Parts
pub mod Taking
