pub mod Entering
pub mod Naming
pub mod Filling
pub mod Bringing
pub mod Only
pub mod Afresh
