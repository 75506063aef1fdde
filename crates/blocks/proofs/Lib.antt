pub mod Counting
pub mod Exactly
pub mod Stepping
pub mod EachKind
pub mod Standing
pub mod Faults
