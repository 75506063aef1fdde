pub mod Inside
pub mod Fields
