pub mod Laws
pub mod OfKind
