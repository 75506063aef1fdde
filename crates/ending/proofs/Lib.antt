pub mod Over
pub mod Answering
pub mod Once
