pub mod Roles
pub mod Search
