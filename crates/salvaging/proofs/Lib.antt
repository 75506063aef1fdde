pub mod Deciding
pub mod Salvaging
pub mod Only
pub mod Accepted
pub mod Completing
pub mod Lonely
