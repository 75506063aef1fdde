pub mod Rounding
pub mod Walking
pub mod Interval
pub mod Only
pub mod Rising
pub mod Meant
