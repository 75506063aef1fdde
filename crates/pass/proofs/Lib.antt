pub mod Stepped
pub mod Against
pub mod Following
pub mod Taking
pub mod Moving
pub mod Walking
