pub mod Growing
pub mod Calls
pub mod EveryCutting
pub mod Late
